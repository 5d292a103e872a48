pub mod Powers
pub mod Ranges
pub mod Standing
pub mod Objects
pub mod CellNames
pub mod Rows
pub mod DumpCells
pub mod Spaces

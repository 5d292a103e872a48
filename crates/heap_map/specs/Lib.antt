pub mod Layout
pub mod Cells
pub mod Pictures

pub mod Imaging
pub mod Dumping
pub mod Judging
pub mod Telling
pub mod Moves

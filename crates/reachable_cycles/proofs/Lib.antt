pub mod Numbers
pub mod Keeping
pub mod Lives
pub mod NextMarks
pub mod HandedRoots
pub mod Refused

pub mod Histories
pub mod KeptInMemory
pub mod TwoNexts

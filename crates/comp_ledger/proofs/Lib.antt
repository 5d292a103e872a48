pub mod Counting
pub mod Numbers

mod Words
mod Whys
mod Crossing
pub mod TurnedKept

pub mod Pins
pub mod Tables
pub mod Around
pub mod Listing
pub mod Parts
pub mod Pinned
pub mod Collecting
pub mod Refusing

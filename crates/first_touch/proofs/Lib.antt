pub mod Lists
pub mod Knowing
pub mod Steps
pub mod TurnSteps
pub mod Cutting
pub mod Whole
pub mod Refusals

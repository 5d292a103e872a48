pub mod Steps
pub mod Emptied
pub mod Leading
pub mod OneFound
pub mod Growing
pub mod MarkedMore
pub mod Taking

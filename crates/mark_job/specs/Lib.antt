pub mod Asked
pub mod Lanes
pub mod LeadingWords
pub mod FreeLanes
pub mod Heads
pub mod Met
pub mod Marking

pub mod Looks
pub mod Looking
pub mod Lanes
pub mod Marking
pub mod Paging
pub mod Touching

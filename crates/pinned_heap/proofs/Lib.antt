pub mod Placed
pub mod Linking
pub mod Ends
mod BlockEnds
mod Masks
mod PinBits
mod Listed
mod Unpinned
mod SlidingPart
mod Whole
mod Joining
mod Found
mod Both

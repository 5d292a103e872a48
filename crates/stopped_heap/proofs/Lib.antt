pub mod Once
pub mod Collected
pub mod Lowering
pub mod Rows
pub mod Faultless
pub mod Viewed
pub mod Joined
pub mod Whole
pub mod InPlace
pub mod Unchanged
pub mod Lasting
pub mod Held
pub mod GivenBits
pub mod Slid
pub mod LooksFound
pub mod TidyWords
pub mod Guardians
pub mod LanedRows
mod AskedAll
mod LanesJoined
mod FoundIn
mod SeenHeld
pub mod Waiting
mod Listing
mod Stepping

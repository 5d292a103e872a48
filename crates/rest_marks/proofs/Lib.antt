pub mod Counts
pub mod BitsBelow
pub mod Taking
pub mod Taken
pub mod Reaching
pub mod Queued
pub mod Copied
pub mod Bounding
pub mod Scanning
pub mod Spread
pub mod Refusing
pub mod Heads
pub mod Spans
pub mod Surveying
pub mod Lent
pub mod Leading
pub mod AskedObjects
pub mod Covered
pub mod Grown
pub mod Seen
pub mod RunBlocks
pub mod LookedAt
pub mod RowsLooked
pub mod Starting
pub mod Laned
pub mod LanedNext
mod Inverting
mod LaneSets

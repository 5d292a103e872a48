pub mod Moved
pub mod MovedFaults
pub mod MovedFiles
pub mod MovedReading
pub mod Ordered
pub mod Slid
pub mod MovedNumbers

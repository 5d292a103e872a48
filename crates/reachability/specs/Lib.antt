pub mod Reachable
pub mod Queue
pub mod Walks

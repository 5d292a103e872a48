pub mod StableReach
pub mod NextRoots
pub mod NextMarks

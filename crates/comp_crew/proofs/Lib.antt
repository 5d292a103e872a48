mod Parts
pub mod EndCounts

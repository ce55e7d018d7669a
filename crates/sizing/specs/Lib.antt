pub mod Sums
pub mod Gates
pub mod Rows
pub mod Tail
pub mod NodeSizes
pub mod Counts
pub mod Blocks
pub mod Whole

-- Laws, for other crates to use.
pub mod Measure
pub mod Gates
pub mod Rows
pub mod Tail
pub mod NodeSizes
pub mod Counts
pub mod Softs
pub mod Rules
pub mod Countable
pub mod Blocks
pub mod Whole

pub mod NodeSizes
pub mod Rules
pub mod Blocks
pub mod Whole

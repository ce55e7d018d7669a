-- Laws, for other crates to use.
pub mod Blocks
pub mod Position
pub mod Walked
pub mod Known
pub mod Whole
pub mod Writable

-- Laws, for other crates to use.
pub mod Run
pub mod Lines
pub mod Block
pub mod Parts
pub mod Meaning
pub mod Tails
pub mod Lend
pub mod AllTrue
pub mod Skipped

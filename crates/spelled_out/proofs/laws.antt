-- Laws, for other crates to use.
pub mod Reads
pub mod Local
pub mod Parts
pub mod Spelt
pub mod SpeltLists
pub mod Pieces
pub mod Whole
pub mod SpelledFile
pub mod Windows
pub mod Shown
pub mod Demand

-- Laws, for other crates to use.
pub mod Ground
pub mod Runs
pub mod Stored

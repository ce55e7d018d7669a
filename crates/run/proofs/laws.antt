-- Laws, for other crates to use.
pub mod Run
pub mod Termination

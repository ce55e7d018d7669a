-- Laws, for other crates to use.
pub mod Gathered
pub mod Bytes
pub mod Settled
pub mod Filled

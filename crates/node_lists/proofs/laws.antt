-- Laws, for other crates to use.
pub mod Cluster
pub mod Idle
pub mod Lengths

pub mod Cluster
pub mod Idle
pub mod Lengths

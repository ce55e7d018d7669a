-- Laws, for other crates to use.
pub mod Best
pub mod Demand

-- Laws, for other crates to use.
pub mod Given
pub mod Demand

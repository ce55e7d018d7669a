-- Laws, for other crates to use.
pub mod Checked
pub mod Demand

-- Laws, for other crates to use.
pub mod Live
pub mod Holding
pub mod Built

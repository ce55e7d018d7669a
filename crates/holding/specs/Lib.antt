pub mod Holding
pub mod Built

-- Laws, for other crates to use.
pub mod Evaluate
pub mod LongClauses
pub mod Long
pub mod Pairs

pub mod LongClauses
pub mod Pairs

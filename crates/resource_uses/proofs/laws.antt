-- Laws, for other crates to use.
pub mod Bits
pub mod Takers
pub mod Uses

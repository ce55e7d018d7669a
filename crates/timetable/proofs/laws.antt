-- Laws, for other crates to use.
pub mod Bits
pub mod Above
pub mod Right
pub mod Refusals
pub mod Takers
pub mod Uses

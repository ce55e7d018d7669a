pub mod Bits
pub mod Takers
pub mod Uses

pub mod Answers
pub mod Bits
pub mod Right
pub mod Uses

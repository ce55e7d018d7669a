pub mod Answers
pub mod Bounds
pub mod Decoded
pub mod Valid
pub mod Walk

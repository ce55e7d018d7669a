-- Laws, for other crates to use.
pub mod Bounds
pub mod Decoded
pub mod Valid
pub mod Walk

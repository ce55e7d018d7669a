pub mod laws
mod Decoding

-- Laws, for other crates to use.
pub mod Written
pub mod Tails
pub mod Bounded
pub mod NonEmpty
pub mod Storable
pub mod Standing
pub mod Prepared
pub mod Asked

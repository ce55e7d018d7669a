pub mod Bounded
pub mod Prepared
pub mod Written

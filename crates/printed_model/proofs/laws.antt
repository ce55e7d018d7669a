-- Laws, for other crates to use.
pub mod Numerals
pub mod Words
pub mod ReadBack
pub mod TextBack
pub mod Demand

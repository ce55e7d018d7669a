pub mod NumberTold
pub mod Loops

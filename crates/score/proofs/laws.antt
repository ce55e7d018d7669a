-- Laws, for other crates to use.
pub mod Amounts
pub mod Score
pub mod Ready
pub mod Right

pub mod Amounts
pub mod Ready

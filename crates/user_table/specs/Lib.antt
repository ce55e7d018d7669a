pub mod Users
pub mod Filled

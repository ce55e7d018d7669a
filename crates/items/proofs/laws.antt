-- Laws, for other crates to use.
pub mod Written
pub mod Numbers
pub mod Held
pub mod Counted
pub mod Lists

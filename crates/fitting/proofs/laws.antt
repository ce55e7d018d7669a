-- Laws, for other crates to use.
pub mod Known
pub mod Lists
pub mod Fitting

pub mod Taut
pub mod Booleans
pub mod Lists

-- Laws, for other crates to use.
pub mod Store
pub mod Decimal

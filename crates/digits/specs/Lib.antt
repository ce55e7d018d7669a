pub mod Run
pub mod Store
pub mod Decimal
pub mod Spelled

pub mod laws
pub mod Turns
pub mod Truth
pub mod Words
pub mod LineParts
pub mod Emitted
pub mod AtOnce

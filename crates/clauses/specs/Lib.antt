pub mod Before
pub mod Blocks
pub mod Fits
pub mod Walked
pub mod Writable

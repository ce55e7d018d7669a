-- Laws, for other crates to use.
pub mod Group
pub mod Idle
pub mod Sums
pub mod Subevents
pub mod Held
pub mod Gap
pub mod Charge
pub mod Counting
pub mod Meaning

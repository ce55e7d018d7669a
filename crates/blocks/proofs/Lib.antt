pub mod EventStart
pub mod ResourceUse
pub mod EventDuration
pub mod Passed

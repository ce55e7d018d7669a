-- Laws, for other crates to use.
pub mod Reading
pub mod Listing
pub mod ReadingTurns
pub mod ReadingLoops
pub mod StepReading
pub mod Copying

-- Laws, for other crates to use.
pub mod Hints
pub mod Invariant
pub mod LookMeans
pub mod StepMeans
pub mod ReadMeans
pub mod Meaning

pub mod laws
mod Ahead
mod Chain
mod GapNodes
mod GapStored
mod ReachNodes
mod Walked

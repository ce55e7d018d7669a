pub mod laws
pub mod XsRows
mod ClusterNodes
mod IdleNodes
mod LengthNodes

mod Cuts
mod Parting
mod Nodes
mod Roots
mod ReadNodes
mod Rows
pub mod FromHalves
pub mod Proved

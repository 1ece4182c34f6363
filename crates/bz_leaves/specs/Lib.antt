pub mod Examples
pub mod Laws
pub mod Leaves
pub mod Neighbours

mod Cuts
mod Lookups
mod Parting
pub mod Roots
mod Parents
pub mod PartedParents
pub mod PartedChildren
pub mod ReadParents
mod Making
pub mod Proved

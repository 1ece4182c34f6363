mod Fronts
mod Lookups
mod Joining
mod Children
mod Weights
mod JoinedParents
mod JoinedChildren
mod OneLeaf
mod Inserting
mod MadeParents
pub mod Proved

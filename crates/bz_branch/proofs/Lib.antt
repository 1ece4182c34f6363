mod ReadingNodes
pub mod Standing
mod InnerSplitting
mod RootSplitting
mod Fronts
mod Halving
pub mod Staying
pub mod Paths
pub mod FromSplit
pub mod FromBelow
pub mod Proved
pub mod FromRenew

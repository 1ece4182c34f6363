mod Walks
pub mod Sames
mod Ages
mod Frozen
pub mod FrozenWords
mod Inside
mod Roots
mod Ranges
mod Thawed
pub mod Stays
pub mod Swapping
mod PairSwaps
mod LeafSwaps
mod PairChanges
mod Others
pub mod Guards
mod SeenLeaves
mod Showing
mod Settled
mod Separators
mod Resting
mod Targeting
pub mod FromSwap
pub mod Proved
pub mod FromContent

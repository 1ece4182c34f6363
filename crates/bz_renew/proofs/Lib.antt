pub mod Words
mod LinkSwaps
pub mod TwoEntries
pub mod Inserting
pub mod Freezings
pub mod FrozenNodes
pub mod Restamping
mod Basis
mod InnerNodes
pub mod FrozenLeaves
mod Turns
mod UnderRoot
mod UnderNode
pub mod FreshSlots
pub mod Plainness
mod LowFences
pub mod Sorting
mod Turnable
pub mod NodeWrites
pub mod Staying
pub mod Guards
pub mod Slots
mod Viewing
pub mod Proved

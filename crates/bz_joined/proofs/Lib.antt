mod Alike
mod DueMerges
mod Families
mod Freezes
mod Knowing
mod Lacked
mod LackingSlots
mod Undisturbed
mod Merges
mod Quiet
mod Roomy
mod SeenLeaves
mod Single
mod SmallLeaves
mod Standing
mod Swapped
pub mod Proved
pub mod FromRounds
pub mod FromAlone

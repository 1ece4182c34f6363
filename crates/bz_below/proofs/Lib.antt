pub mod OpenNodes
pub mod ReadWords
pub mod ReadingParents
mod Fronts
mod Standing
mod Staying
mod Acting
mod Ending
mod Counting
mod Making
mod Reading
pub mod ParentsThen
mod Opening
mod Telling
mod Looking
mod Writing
mod Naming
mod Viewing
mod NewParents
mod Briefness
pub mod FromSplit
mod Beginning
pub mod Proved

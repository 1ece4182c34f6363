mod Feeds
mod Fitting
mod Fronts
mod LineLemmas
mod Unique
mod Whole
mod WriteLemmas
mod Apart
pub mod Proved

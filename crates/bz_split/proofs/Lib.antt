mod RootSplitting
mod BelowSplitting
mod Parting
pub mod Staying
mod Making
mod Acting
mod Viewing
pub mod Proved

pub mod Advancing
pub mod Orders
pub mod Metas
pub mod Endings
pub mod Learning
pub mod Slots
pub mod Stepping
pub mod Staying
pub mod Reading
pub mod Begins
pub mod Same
pub mod Viewing
pub mod Keeping
pub mod Restarts
pub mod Causes
pub mod Telling
mod Counts

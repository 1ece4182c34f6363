mod Scenes
pub mod Storing
pub mod Powered
mod Awaiting
mod Lives
mod Watching
mod Striking
mod Openings
mod Takings
mod RecoveryAsks
pub mod Booting
pub mod Powering
pub mod Recoveries
pub mod Revivals
pub mod Rebirths
pub mod Proved

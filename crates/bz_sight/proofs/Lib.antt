mod Acting
mod Awaiting
mod Effecting
mod Leavings
mod Openings
mod Passings
mod ReadWords
mod Renewals
mod Starting
mod SwapMemories
pub mod Proved

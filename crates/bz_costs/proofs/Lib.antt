mod Affordable
mod Asked
mod Examples
mod Heard
mod Least
mod Lost
mod Most
mod Splits
mod Stages
pub mod Proved

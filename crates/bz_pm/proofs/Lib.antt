pub mod Lemmas
pub mod Fences
mod Asked
mod Asking
pub mod Dates
mod Settling
mod States
pub mod Proved

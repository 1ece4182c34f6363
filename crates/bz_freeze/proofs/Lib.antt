mod Freezing
mod Asking
mod Staying
pub mod Proved

mod Lookups
mod Views
mod Shows
pub mod Proved

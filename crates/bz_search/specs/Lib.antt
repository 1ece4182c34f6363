pub mod Digits
pub mod Probes
pub mod Searches

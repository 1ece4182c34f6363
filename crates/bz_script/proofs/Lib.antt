pub mod FirstFaults
pub mod Lines
pub mod NumberLemmas
pub mod Scripts
pub mod TurnWords
pub mod Proved

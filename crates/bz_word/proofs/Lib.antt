pub mod Lemmas
pub mod Proved

pub mod Facts
pub mod Laws
pub mod Phases
pub mod Plans

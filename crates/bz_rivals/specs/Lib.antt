pub mod Examples
pub mod Laws
pub mod Notes
pub mod Rivals
pub mod Runs
pub mod Wins

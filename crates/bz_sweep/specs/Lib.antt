pub mod Areas
pub mod Duties
pub mod Knowledge
pub mod Lawful
pub mod Laws
pub mod Memory
pub mod Places
pub mod Words

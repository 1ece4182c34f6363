pub mod Decimals
pub mod Jobs
pub mod Steps
pub mod Texts
pub mod Proved

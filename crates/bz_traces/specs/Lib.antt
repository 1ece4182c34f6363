pub mod Journals
pub mod Fitting
pub mod Writes
pub mod Steps
pub mod Opened
pub mod Laws
pub mod Example

pub mod Known
pub mod Staying
pub mod Viewing
pub mod Learning
pub mod Causes

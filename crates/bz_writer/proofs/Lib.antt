pub mod Staying
pub mod Learning
pub mod Acting
pub mod Going
pub mod Written
pub mod Stepping
pub mod Sizes

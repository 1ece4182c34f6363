pub mod Grown
pub mod Consumed

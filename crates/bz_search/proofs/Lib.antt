pub mod Digits
pub mod Halving
pub mod Powers
pub mod Proved

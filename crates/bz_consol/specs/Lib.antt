pub mod Copies
pub mod Duties
pub mod Facts

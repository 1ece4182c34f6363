pub mod Marks
pub mod Past

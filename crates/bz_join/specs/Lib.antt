pub mod Leaves
pub mod Parents

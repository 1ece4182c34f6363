pub mod Duties
pub mod Facts
pub mod Guards
pub mod Parents
pub mod FromSplit

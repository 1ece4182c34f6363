pub mod Made
pub mod Parts
pub mod Ready
pub mod Rule
pub mod Writes

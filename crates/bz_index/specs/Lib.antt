pub mod Entries
pub mod Worlds
pub mod Passes
pub mod Calls
pub mod Meaning
pub mod Inside
pub mod FromWorld

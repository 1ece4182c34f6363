-- How the words are read. The crate's own functions alone cite it.
pub mod Parser
pub mod Founds
pub mod Arrangement

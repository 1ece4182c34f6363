pub mod Form
pub mod Texts
pub mod Reads
pub mod Faults
pub mod Laws
pub mod Fetches
pub mod Worlds
pub mod Numbers

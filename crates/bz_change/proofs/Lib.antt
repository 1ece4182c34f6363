pub mod Settling
pub mod Changing
pub mod Listing
pub mod Proved

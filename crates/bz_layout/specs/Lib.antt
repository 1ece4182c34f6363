pub mod Addresses
pub mod Config
pub mod Fresh
pub mod Numbers
pub mod Rooms
pub mod Slots
pub mod Table
pub mod Texts

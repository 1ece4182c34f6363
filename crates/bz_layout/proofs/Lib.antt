pub mod Addresses
pub mod Consecutive
pub mod FreePlaces
pub mod FreshWords
pub mod Laws
pub mod Rooms
pub mod SlotLaws
pub mod TakenSlots

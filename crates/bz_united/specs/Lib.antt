pub mod Uniting
pub mod Laws

pub mod Facts
pub mod Duties
pub mod Laws

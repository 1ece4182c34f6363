pub mod Halves
pub mod Laws
pub mod Made
pub mod Parents
pub mod Roots

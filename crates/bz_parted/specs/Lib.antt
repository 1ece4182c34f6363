pub mod Laws
pub mod Made
pub mod Parting
pub mod Roots
pub mod FromHalves

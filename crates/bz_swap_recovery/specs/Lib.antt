pub mod Recovering
pub mod Laws

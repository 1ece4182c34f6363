pub mod Changes
pub mod Values
pub mod Laws

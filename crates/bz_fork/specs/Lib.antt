pub mod Due
pub mod Duties
pub mod Facts
pub mod Halves

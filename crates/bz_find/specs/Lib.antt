pub mod Words
pub mod Steps
pub mod Bounds
pub mod Costs
pub mod Knowing
pub mod Phases
pub mod Facts
pub mod Duties

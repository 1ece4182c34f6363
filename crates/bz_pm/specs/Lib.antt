pub mod Acts
pub mod After
pub mod Changes
pub mod State
pub mod Words

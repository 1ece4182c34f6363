pub mod Images
pub mod Pages
pub mod Questions
pub mod Rules
pub mod Starts
pub mod Laws

pub mod Descriptors
pub mod HeldDescriptors
pub mod Images
pub mod Proved

pub mod Bytes
pub mod Laws
pub mod Packing
pub mod Padded
pub mod Pages
pub mod Spelling
pub mod Steps
pub mod Texts

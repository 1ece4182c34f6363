pub mod OneLeaf
pub mod TwoLeaves
pub mod Moving
pub mod Worked
pub mod Proved

pub mod OneLeaf
pub mod TwoLeaves
pub mod WorkedMove

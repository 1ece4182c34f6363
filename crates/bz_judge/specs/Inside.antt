-- What the program knows on its way, for its own proofs.
pub mod Gathers
pub mod Kinds
pub mod Leaves
pub mod Nodes
pub mod Stacks
pub mod Walking

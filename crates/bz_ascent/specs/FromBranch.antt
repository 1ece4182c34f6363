-- What crates above take of bz_branch by this one.
pub use Rattle.bz_branch.specs.Due
pub use Rattle.bz_branch.specs.InnerSplits
pub use Rattle.bz_branch.specs.Nodes
pub use Rattle.bz_branch.specs.Parts

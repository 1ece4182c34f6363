-- What crates above take of bz_branch by this one.
pub use Rattle.bz_ascent.specs.FromBranch.InnerSplits
pub use Rattle.bz_ascent.specs.FromBranch.Nodes

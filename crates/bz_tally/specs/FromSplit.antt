-- What crates above take of bz_split by this one.
pub use Rattle.bz_branch.specs.FromSplit.BelowSplits
pub use Rattle.bz_branch.specs.FromSplit.Duties
pub use Rattle.bz_branch.specs.FromSplit.Facts
pub use Rattle.bz_branch.specs.FromSplit.Parts
pub use Rattle.bz_branch.specs.FromSplit.SplitRoot

-- What crates above take of bz_split by this one.
pub use Rattle.bz_below.specs.FromSplit.BelowSplits
pub use Rattle.bz_below.specs.FromSplit.Duties
pub use Rattle.bz_below.specs.FromSplit.Facts
pub use Rattle.bz_below.specs.FromSplit.Parts
pub use Rattle.bz_below.specs.FromSplit.RootSplits
pub use Rattle.bz_below.specs.FromSplit.SplitRoot

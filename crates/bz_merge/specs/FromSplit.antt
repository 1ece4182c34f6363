-- What crates above take of bz_split by this one.
pub use Rattle.bz_split.specs.BelowSplits
pub use Rattle.bz_split.specs.Duties
pub use Rattle.bz_split.specs.Facts
pub use Rattle.bz_split.specs.Parts
pub use Rattle.bz_split.specs.declared.split_root.SplitRoot

-- What crates above take of bz_below by this one.
pub use Rattle.bz_branch.specs.FromBelow.Duties
pub use Rattle.bz_branch.specs.FromBelow.Facts
pub use Rattle.bz_branch.specs.FromBelow.BelowPhase
pub use Rattle.bz_branch.specs.FromBelow.SplitBelow

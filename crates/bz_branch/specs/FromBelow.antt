-- What crates above take of bz_below by this one.
pub use Rattle.bz_below.specs.Duties
pub use Rattle.bz_below.specs.Facts
pub use Rattle.bz_below.specs.Guards
pub use Rattle.bz_below.specs.Parents
pub use Rattle.bz_below.specs.declared.phase.BelowPhase
pub use Rattle.bz_below.specs.declared.split_below.SplitBelow

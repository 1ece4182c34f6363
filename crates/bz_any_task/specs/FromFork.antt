-- What crates above take of bz_fork by this one.
pub use Rattle.bz_fork.specs.Duties
pub use Rattle.bz_fork.specs.Facts
pub use Rattle.bz_fork.specs.declared.phase.ForkPhase
pub use Rattle.bz_fork.specs.declared.split_inner.SplitInner

-- What crates above take of bz_fork by this one.
pub use Rattle.bz_any_task.specs.FromFork.Duties
pub use Rattle.bz_any_task.specs.FromFork.Facts
pub use Rattle.bz_any_task.specs.FromFork.ForkPhase
pub use Rattle.bz_any_task.specs.FromFork.SplitInner

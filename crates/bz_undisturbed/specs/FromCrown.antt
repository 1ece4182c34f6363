-- What crates above take of bz_crown by this one.
pub use Rattle.bz_any_task.specs.FromCrown.Duties
pub use Rattle.bz_any_task.specs.FromCrown.Facts
pub use Rattle.bz_any_task.specs.FromCrown.CrownPhase
pub use Rattle.bz_any_task.specs.FromCrown.SplitInnerRoot

-- What crates above take of bz_merge by this one.
pub use Rattle.bz_any_task.specs.FromMerge.Counts
pub use Rattle.bz_any_task.specs.FromMerge.Duties
pub use Rattle.bz_any_task.specs.FromMerge.Facts
pub use Rattle.bz_any_task.specs.FromMerge.MergePhase
pub use Rattle.bz_any_task.specs.FromMerge.Plans

-- What crates above take of bz_merge by this one.
pub use Rattle.bz_any_task.specs.FromMerge.Thawed

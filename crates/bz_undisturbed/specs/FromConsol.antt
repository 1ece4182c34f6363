-- What crates above take of bz_consol by this one.
pub use Rattle.bz_any_task.specs.FromConsol.Consolidate
pub use Rattle.bz_any_task.specs.FromConsol.Duties
pub use Rattle.bz_any_task.specs.FromConsol.Facts

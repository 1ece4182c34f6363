-- What crates above take of bz_any_task by this one.
pub use Rattle.bz_any_task.specs.Duties
pub use Rattle.bz_any_task.specs.GoingUp
pub use Rattle.bz_any_task.specs.Hearing
pub use Rattle.bz_any_task.specs.Kinds
pub use Rattle.bz_any_task.specs.MadeFor
pub use Rattle.bz_any_task.specs.declared.running.AnyTask

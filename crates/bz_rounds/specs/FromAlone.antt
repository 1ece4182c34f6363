-- What crates above take of bz_undisturbed by this one.
pub use Rattle.bz_undisturbed.specs.Undisturbed
pub use Rattle.bz_undisturbed.specs.Brief
pub use Rattle.bz_undisturbed.specs.Changes
pub use Rattle.bz_undisturbed.specs.Counts
pub use Rattle.bz_undisturbed.specs.FromRunning.AnyTask
pub use Rattle.bz_undisturbed.specs.FromRunning.Duties
pub use Rattle.bz_undisturbed.specs.FromRunning.Hearing
pub use Rattle.bz_undisturbed.specs.FromRunning.Kinds
pub use Rattle.bz_undisturbed.specs.FromRunning.MadeFor
pub use Rattle.bz_undisturbed.specs.Laws
pub use Rattle.bz_undisturbed.specs.Quiet
pub use Rattle.bz_undisturbed.specs.Reads
pub use Rattle.bz_undisturbed.specs.Restarts
pub use Rattle.bz_undisturbed.specs.Tasks
pub use Rattle.bz_undisturbed.specs.Trees

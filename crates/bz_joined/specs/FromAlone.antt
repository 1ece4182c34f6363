-- What crates above take of bz_undisturbed by this one.
pub use Rattle.bz_rounds.specs.FromAlone.Undisturbed
pub use Rattle.bz_rounds.specs.FromAlone.Brief
pub use Rattle.bz_rounds.specs.FromAlone.Counts
pub use Rattle.bz_rounds.specs.FromAlone.Quiet
pub use Rattle.bz_rounds.specs.FromAlone.Reads
pub use Rattle.bz_rounds.specs.FromAlone.Restarts
pub use Rattle.bz_rounds.specs.FromAlone.Tasks
pub use Rattle.bz_rounds.specs.FromAlone.Trees

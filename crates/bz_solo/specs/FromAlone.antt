-- What crates above take of bz_undisturbed by this one.
pub use Rattle.bz_joined.specs.FromAlone.Undisturbed
pub use Rattle.bz_joined.specs.FromAlone.Brief
pub use Rattle.bz_joined.specs.FromAlone.Counts
pub use Rattle.bz_joined.specs.FromAlone.Quiet
pub use Rattle.bz_joined.specs.FromAlone.Reads
pub use Rattle.bz_joined.specs.FromAlone.Restarts
pub use Rattle.bz_joined.specs.FromAlone.Tasks
pub use Rattle.bz_joined.specs.FromAlone.Trees

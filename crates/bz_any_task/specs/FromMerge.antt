-- What crates above take of bz_merge by this one.
pub use Rattle.bz_merge.specs.Counts
pub use Rattle.bz_merge.specs.Duties
pub use Rattle.bz_merge.specs.Facts
pub use Rattle.bz_merge.specs.Merges
pub use Rattle.bz_merge.specs.OwnFreezes
pub use Rattle.bz_merge.specs.Plans
pub use Rattle.bz_merge.specs.Siblings
pub use Rattle.bz_merge.specs.Thawed
pub use Rattle.bz_merge.specs.declared.merge.Merge
pub use Rattle.bz_merge.specs.declared.phase.MergePhase

-- What crates above take of bz_inner by this one.
pub use Rattle.bz_inner.specs.InnerMerges
pub use Rattle.bz_inner.specs.JoinDuties
pub use Rattle.bz_inner.specs.JoinFacts
pub use Rattle.bz_inner.specs.Joinings
pub use Rattle.bz_inner.specs.Lone
pub use Rattle.bz_inner.specs.LowerDuties
pub use Rattle.bz_inner.specs.LowerFacts
pub use Rattle.bz_inner.specs.Lowerings
pub use Rattle.bz_inner.specs.Neighbours
pub use Rattle.bz_inner.specs.Relinks
pub use Rattle.bz_inner.specs.Small
pub use Rattle.bz_inner.specs.declared.join_phase.JoinPhase
pub use Rattle.bz_inner.specs.declared.lower.Lower
pub use Rattle.bz_inner.specs.declared.lower_phase.LowerPhase
pub use Rattle.bz_inner.specs.declared.merge_inner.MergeInner

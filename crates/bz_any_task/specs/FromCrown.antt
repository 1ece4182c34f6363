-- What crates above take of bz_crown by this one.
pub use Rattle.bz_crown.specs.Duties
pub use Rattle.bz_crown.specs.Facts
pub use Rattle.bz_crown.specs.declared.phase.CrownPhase
pub use Rattle.bz_crown.specs.declared.split_inner_root.SplitInnerRoot

-- What crates above take of bz_find by this one.
pub use Rattle.bz_find.specs.Duties
pub use Rattle.bz_find.specs.Facts
pub use Rattle.bz_find.specs.Phases
pub use Rattle.bz_find.specs.declared.find.Find
pub use Rattle.bz_find.specs.declared.phase.FindPhase

-- What crates above take of bz_insert by this one.
pub use Rattle.bz_insert.specs.Facts
pub use Rattle.bz_insert.specs.FromRecord.NewRecord
pub use Rattle.bz_insert.specs.declared.phase.InsertPhase

-- What crates above take of bz_consol by this one.
pub use Rattle.bz_consol.specs.Duties
pub use Rattle.bz_consol.specs.Facts
pub use Rattle.bz_consol.specs.declared.consolidate.Consolidate

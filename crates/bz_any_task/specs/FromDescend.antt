-- What crates above take of bz_descend by this one.
pub use Rattle.bz_descend.specs.SeekFacts
pub use Rattle.bz_descend.specs.declared.sight.Way

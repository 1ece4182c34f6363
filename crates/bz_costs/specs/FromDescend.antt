-- What crates above take of bz_descend by this one.
pub use Rattle.bz_descend.specs.SeekFacts

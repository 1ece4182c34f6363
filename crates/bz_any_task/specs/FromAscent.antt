-- What crates above take of bz_ascent by this one.
pub use Rattle.bz_ascent.specs.Ascents
pub use Rattle.bz_ascent.specs.Full
pub use Rattle.bz_ascent.specs.declared.ascent.Ascent

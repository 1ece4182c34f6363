-- What crates above take of bz_below by this one.
pub use Rattle.bz_ascent.specs.FromBelow.Facts

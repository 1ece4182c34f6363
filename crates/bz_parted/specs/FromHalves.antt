-- What crates above take of bz_halves by this one.
pub use Rattle.bz_halves.specs.Roots

-- What crates above take of bz_key by this one.
pub use Rattle.bz_key.specs.Packing

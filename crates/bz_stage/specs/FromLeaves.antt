-- What crates above take of bz_leaves by this one.
pub use Rattle.bz_leaves.specs.Neighbours

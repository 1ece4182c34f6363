-- What crates above take of bz_joined by this one.
pub use Rattle.bz_joined.specs.DueMerges
pub use Rattle.bz_joined.specs.Neighbours
pub use Rattle.bz_joined.specs.SmallLeaves

-- What crates above take of bz_tally by this one.
pub use Rattle.bz_joined.specs.FromTally.Counts
pub use Rattle.bz_joined.specs.FromTally.Deletes
pub use Rattle.bz_joined.specs.FromTally.Laws
pub use Rattle.bz_joined.specs.FromTally.Leaves
pub use Rattle.bz_joined.specs.FromTally.Swaps

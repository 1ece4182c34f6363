-- What crates above take of bz_tally by this one.
pub use Rattle.bz_rounds.specs.FromTally.Counts
pub use Rattle.bz_rounds.specs.FromTally.Deletes
pub use Rattle.bz_rounds.specs.FromTally.Leaves
pub use Rattle.bz_rounds.specs.FromTally.Laws
pub use Rattle.bz_rounds.specs.FromTally.Swaps

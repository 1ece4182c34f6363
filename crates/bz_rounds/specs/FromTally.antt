-- What crates above take of bz_tally by this one.
pub use Rattle.bz_tally.specs.Counts
pub use Rattle.bz_tally.specs.Deletes
pub use Rattle.bz_tally.specs.FromLeaves.Leaves
pub use Rattle.bz_tally.specs.Laws
pub use Rattle.bz_tally.specs.Swaps

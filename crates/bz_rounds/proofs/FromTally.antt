-- What proofs of crates above take of those of bz_tally by this one.
pub use Rattle.bz_tally.proofs.Links
pub use Rattle.bz_tally.proofs.Merging
pub use Rattle.bz_tally.proofs.Pairs
pub use Rattle.bz_tally.proofs.Proved

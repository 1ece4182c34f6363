-- What proofs of crates above take of those of bz_halves by this one.
pub use Rattle.bz_halves.proofs.Roots

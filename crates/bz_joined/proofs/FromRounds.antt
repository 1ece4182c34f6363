-- What crates above take of bz_rounds by this one.
pub use Rattle.bz_rounds.proofs.Proved

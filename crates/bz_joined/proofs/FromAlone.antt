-- What crates above take of bz_undisturbed by this one.
pub use Rattle.bz_rounds.proofs.FromAlone.Proved

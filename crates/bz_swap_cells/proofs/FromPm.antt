-- What proofs of crates above take of those of bz_pm by this one.
pub use Rattle.bz_pm.proofs.Dates
pub use Rattle.bz_pm.proofs.Lemmas
pub use Rattle.bz_pm.proofs.Fences

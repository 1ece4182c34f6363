-- What crates above take of bz_renew by this one.
pub use Rattle.bz_renew.proofs.Proved

-- What proofs of crates above take of those of bz_key by this one.
pub use Rattle.bz_key.proofs.UnpackingLaws

-- What crates above take of bz_content by this one.
pub use Rattle.bz_content.proofs.Proved

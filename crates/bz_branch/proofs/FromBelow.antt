-- What crates above take of bz_below's proofs by this one.
pub use Rattle.bz_below.proofs.ReadWords
pub use Rattle.bz_below.proofs.ParentsThen

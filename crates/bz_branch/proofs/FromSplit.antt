-- What crates above take of bz_split's proofs by this one.
pub use Rattle.bz_below.proofs.FromSplit.Staying

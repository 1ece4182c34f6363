-- What crates above take of bz_slotted by this one.
pub use Rattle.bz_slotted.proofs.Proved

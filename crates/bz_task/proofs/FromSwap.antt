-- What proofs of crates above take of those of bz_swap by this one.
pub use Rattle.bz_swap.proofs.EntryLists

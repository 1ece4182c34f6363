-- What crates above take of bz_swap by this one.
pub use Rattle.bz_swap.specs.EntryLists
pub use Rattle.bz_swap.specs.SwapMemory

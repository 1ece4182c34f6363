-- What proofs of crates above take of those of bz_branch by this one.
pub use Rattle.bz_branch.proofs.Standing

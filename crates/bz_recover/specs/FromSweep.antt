-- What the crates above take from bz_sweep by this one.
pub use Rattle.bz_sweep.specs.Laws
pub use Rattle.bz_sweep.specs.Memory

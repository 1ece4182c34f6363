-- What crates above take of bz_pm by this one.
pub use Rattle.bz_pm.specs.Acts
pub use Rattle.bz_pm.specs.After
pub use Rattle.bz_pm.specs.Changes
pub use Rattle.bz_pm.specs.State
pub use Rattle.bz_pm.specs.Words

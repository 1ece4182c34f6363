-- What crates above take of bz_rounds by this one.
pub use Rattle.bz_rounds.specs.Due
pub use Rattle.bz_rounds.specs.Left
pub use Rattle.bz_rounds.specs.Levels
pub use Rattle.bz_rounds.specs.Undisturbed
pub use Rattle.bz_rounds.specs.Stands
pub use Rattle.bz_rounds.specs.Viewed

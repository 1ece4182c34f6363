-- What crates above take of bz_rounds by this one.
pub use Rattle.bz_joined.specs.FromRounds.Due
pub use Rattle.bz_joined.specs.FromRounds.Levels
pub use Rattle.bz_joined.specs.FromRounds.Stands
pub use Rattle.bz_joined.specs.FromRounds.Viewed

-- What crates above take of bz_stage by this one.
pub use Rattle.bz_stage.specs.Rooms
pub use Rattle.bz_stage.specs.Stages
pub use Rattle.bz_stage.specs.FromLeaves.Neighbours

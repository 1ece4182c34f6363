-- What crates above take of bz_world by this one.
pub use Rattle.bz_world.specs.WorldView
pub use Rattle.bz_world.specs.Numbers
pub use Rattle.bz_world.specs.declared.answers.LimitKind

-- What crates above take of bz_tree by this one.
pub use Rattle.bz_tree.specs.Order
pub use Rattle.bz_tree.specs.Slots

-- What crates above take of bz_node by this one.
pub use Rattle.bz_node.specs.Reading
pub use Rattle.bz_node.specs.Records

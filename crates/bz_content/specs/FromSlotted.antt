-- What crates above take of bz_slotted by this one.
pub use Rattle.bz_slotted.specs.Changes
pub use Rattle.bz_slotted.specs.FromNode.Reading
pub use Rattle.bz_slotted.specs.InnerChanges
pub use Rattle.bz_slotted.specs.Laws
pub use Rattle.bz_slotted.specs.LeafLaws
pub use Rattle.bz_slotted.specs.Page
pub use Rattle.bz_slotted.specs.Readers
pub use Rattle.bz_slotted.specs.ReadingLaws
pub use Rattle.bz_slotted.specs.Records
pub use Rattle.bz_slotted.specs.Rules
pub use Rattle.bz_slotted.specs.Tests
pub use Rattle.bz_slotted.specs.Whole

-- What crates above take of bz_content by this one.
pub use Rattle.bz_content.specs.Changes
pub use Rattle.bz_content.specs.Content
pub use Rattle.bz_content.specs.Image
pub use Rattle.bz_content.specs.Laws
pub use Rattle.bz_content.specs.Resolving
pub use Rattle.bz_content.specs.Swaps
pub use Rattle.bz_content.specs.View

pub mod Counts
pub mod Deletes
pub mod Laws
pub mod Swaps
pub mod FromLeaves
pub mod FromBelow
pub mod FromRecord
pub mod FromSplit

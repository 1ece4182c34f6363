pub mod BelowSplits
pub mod Duties
pub mod Facts
pub mod Parts
pub mod RootSplits

pub mod JoinForms
pub mod Joins
pub mod JoinTrees
pub mod Lowerings
pub mod Words
pub mod Proved

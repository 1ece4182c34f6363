-- The laws of sound journals where the power fails and comes on again.
pub mod AsBefore
pub mod Follows
pub mod Growth
pub mod Left
pub mod Happened
pub mod OneHistory
pub mod Told
pub mod WorkedWords
pub mod WorkedCuts

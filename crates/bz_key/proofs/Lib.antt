pub mod PackingLaws
pub mod ReaderLaws
pub mod SpellingLaws
pub mod UnpackingLaws
mod Front
mod Packings
mod Readings
mod Spellings
mod WordReads
pub mod Proved

mod Tests
mod Settling
mod Restoring
pub mod Replaying
pub mod Deciding
mod Knowing
pub mod Following
pub mod Mapping
mod Answering
mod Seeing
mod Counting
mod Replying
pub mod Judging
pub mod Passing
pub mod LawProofs
pub mod PlainLaws
mod ExampleProofs

pub mod DateLaws
pub mod MayHoldLaws
pub mod MomentLaws
pub mod WordLaws
pub mod TableLemmas
pub mod KeptLemmas
pub mod Steps
pub mod Counting
pub mod Renumbering
pub mod Reached
pub mod Joining
pub mod Joined
pub mod LawProofs
pub mod ExampleProofs
mod PageLemmas
pub mod TimeLaws
pub mod Proved

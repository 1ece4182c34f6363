pub mod FollowLemmas
pub mod ItemLemmas
pub mod WriteLemmas
pub mod StatusLemmas
pub mod EndLemmas
pub mod LoadLemmas
pub mod BaseLemmas
pub mod FirstLemmas
pub mod SumLemmas
mod RunLemmas
pub mod FreshLemmas
pub mod ReportLemmas
pub mod ThreadLemmas
mod TraceLemmas
mod QueueStatus
mod QueueTold
mod QueueEnds
pub mod AnswerLemmas

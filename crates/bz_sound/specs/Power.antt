-- Sound journals over a memory whose power fails and comes on again.
pub mod Times
pub mod Calls
pub mod Spent
pub mod Replies
pub mod Sound
pub mod History
pub mod Laws
pub mod CutLaws
pub mod Growth
pub mod CallLaws
pub mod ImageLaws
pub mod Example

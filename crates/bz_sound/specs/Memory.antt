-- Sound journals over a memory, for as long as the power is neither cut nor comes on.
pub mod Moments
pub mod Calls
pub mod Spent
pub mod Replies
pub mod Sound
pub mod Laws
pub mod ImageLaws
pub mod CallLaws
pub mod OpenCallLaws
pub mod History
pub mod Example

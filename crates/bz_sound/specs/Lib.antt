pub mod Calls
pub mod Replies
pub mod Solitary
pub mod Memory
pub mod Power

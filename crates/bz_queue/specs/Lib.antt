pub mod Acts
pub mod QueueView
pub mod Solo
pub mod Inside

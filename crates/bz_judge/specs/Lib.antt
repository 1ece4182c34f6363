pub mod Held
pub mod Inside
pub mod Judgement
pub mod Leaves

mod Children
mod Nodes
mod Reading
mod Rows
pub mod Proved

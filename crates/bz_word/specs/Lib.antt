pub mod Fields
pub mod Headers
pub mod Kinds
pub mod Metas
pub mod Statements
pub mod Statuses

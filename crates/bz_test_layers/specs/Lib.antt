pub mod Books
pub mod Settled

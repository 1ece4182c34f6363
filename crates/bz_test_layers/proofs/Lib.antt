pub mod Books
pub mod TestWorlds
pub mod Zeros

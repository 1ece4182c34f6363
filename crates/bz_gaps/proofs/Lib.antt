pub mod FreeWords

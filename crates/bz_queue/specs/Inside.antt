-- What a queue keeps true of its parts. No caller needs it.
pub mod Kept
pub mod Serving
pub mod Sweepable
pub mod Going
pub mod Acted
pub mod Begun
pub mod Left
pub mod Sparing
pub mod Powering

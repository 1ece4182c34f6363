mod Staying
mod Places
mod Parents
mod Rising
pub mod FromBranch
pub mod Proved

mod Copying
mod Staying
mod Renewing
mod Acting
mod Viewing
pub mod Proved

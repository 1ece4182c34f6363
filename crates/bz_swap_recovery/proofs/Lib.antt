pub mod Asks
pub mod Values
pub mod Failing
pub mod Powering
pub mod Acting
pub mod Revivals
pub mod Proved

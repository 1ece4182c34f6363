pub mod Contents
pub mod Duties
pub mod FromSweep
pub mod Knowledge
pub mod Laws
pub mod Places
pub mod Sweep
pub mod Walking

pub mod Example
pub mod Laws
pub mod Names
pub mod Workload
pub mod Numbers

pub mod Exchanges
pub mod Found

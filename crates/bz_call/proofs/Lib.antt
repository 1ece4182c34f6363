pub mod FromKey

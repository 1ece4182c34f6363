pub mod Map
pub mod Pages
pub mod FromKey

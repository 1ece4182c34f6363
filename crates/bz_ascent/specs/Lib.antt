pub mod Full
pub mod Ascents
pub mod Laws
pub mod FromBelow
pub mod FromBranch

pub mod Story
pub mod Living
pub mod Laws
pub mod Opening
pub mod Recovering
pub mod RecoveryLaws
pub mod Reviving

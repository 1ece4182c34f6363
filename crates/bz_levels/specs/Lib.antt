pub mod InnerMerge
pub mod RootLowering
pub mod Restructures
pub mod Laws

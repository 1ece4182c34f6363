-- How a swap memory lies in the fields of `Access`, and what it keeps true of them. Its own functions alone cite it.
pub mod Allowances
pub mod Evicted
pub mod Kept
pub mod Parts
pub mod Raw
pub mod Roles

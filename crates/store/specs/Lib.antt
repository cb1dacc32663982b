pub mod Ids
pub mod Limits
pub mod Refusals
pub mod Ranges
pub mod Sets
pub mod Changes
pub mod Laws
pub mod Prints

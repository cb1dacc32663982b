pub mod Adding
pub mod Removing
pub mod Members
pub mod Counting
pub mod Nexts
pub mod Models
pub mod Unchanged

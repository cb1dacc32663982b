-- The definitions that the contracts of this crate cite.
pub mod Decimal
pub mod Hex

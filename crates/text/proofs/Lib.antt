-- The lemmas that the proofs of this crate share.
mod Examples
pub mod Pairs
pub mod Reading
pub mod Writing

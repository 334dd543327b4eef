-- The laws that this crate's proofs cite.
pub mod Joining
pub mod Lines
pub mod Totals
pub mod Ending
pub mod Walked

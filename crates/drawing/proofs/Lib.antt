-- The laws that the functions' proofs cite.
pub mod Walked
pub mod Laws
pub mod Refusals

-- The laws that the functions' proofs cite, that a situation is the same after it was flat, and what flat answers mean.
pub mod Maps
pub mod Four
pub mod Back
pub mod Readings
pub mod Outcomes
pub mod Part

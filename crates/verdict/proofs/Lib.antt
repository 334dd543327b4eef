-- The laws that the functions' proofs cite.
pub mod Trains
pub mod Decided
pub mod Kept
pub mod Shown
pub mod Answered
pub mod Turn
pub mod Refusals

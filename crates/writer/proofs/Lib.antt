-- The laws that the functions' proofs cite.
pub mod Lines
pub mod Parts
pub mod Text
pub mod Loops
pub mod Answer

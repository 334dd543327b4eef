-- The laws that the functions' proofs cite.
pub mod Splice
pub mod Digits

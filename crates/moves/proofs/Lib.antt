-- The laws that the functions' proofs cite.
pub mod Loses
pub mod Element
pub mod Station
pub mod Where

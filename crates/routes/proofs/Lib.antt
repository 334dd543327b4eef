-- The laws that the proofs of the functions cite.
pub mod Conflict
pub mod Words
pub mod Table
pub mod Lines
pub mod Reading
pub mod StoodOver
pub mod Answered

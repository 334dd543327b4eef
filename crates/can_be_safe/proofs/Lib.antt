-- The laws that the operation rests on.
pub mod Stopping
pub mod Answers

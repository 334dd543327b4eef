-- The laws that the settings question rests on.
pub mod Tried
pub mod Loop
pub mod Places
pub mod Refusals
pub mod Answers

-- What is asked of the settings, and what trying them leaves.
pub mod Tried
pub mod Question

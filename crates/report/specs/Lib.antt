-- Definitions that only this crate's contracts need.
pub mod Gathering

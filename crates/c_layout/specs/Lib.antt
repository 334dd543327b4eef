-- What the flat values stand for.
pub mod Flat

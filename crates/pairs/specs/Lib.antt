-- What a set of pairs holds.
pub mod Pairs

-- What a table of pairs loses, and where a train stands.
pub mod Moves
pub mod Standing

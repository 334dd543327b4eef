-- What filling the list asks.
pub mod Placing

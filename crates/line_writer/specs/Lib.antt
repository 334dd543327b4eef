-- What the contracts of this crate cite besides the definitions of crate meaning.
pub mod Digits
pub mod Rows

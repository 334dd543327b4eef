-- What the contracts of this crate cite besides the definitions of crate meaning.
pub mod Text
pub mod Parts
pub mod InRange

-- Laws of the loops of `placement`.
pub mod Searching
pub mod Filling

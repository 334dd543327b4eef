-- What checking one line after the others gives.
pub mod Causes

-- What the parts of the reader give.
pub mod Reader

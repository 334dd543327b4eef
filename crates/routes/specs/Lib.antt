-- What the code of the routes operation keeps.
pub mod Sets

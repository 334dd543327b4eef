-- The proceed count over the kinds of the open elements.
pub mod Proceed

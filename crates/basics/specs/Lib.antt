-- Numbers that pass a test, and lists made of a function's values.
pub mod Numbers
pub mod Lists

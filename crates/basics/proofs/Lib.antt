-- Laws of lists, tests and numbers.
pub mod Tests
pub mod Numbers
pub mod UpTo
pub mod Lists
pub mod Members
pub mod Holds
pub mod Stored

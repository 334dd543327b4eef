-- The laws about the definitions of specs/, and what the tests of one line give.
pub mod Fields
pub mod Causes
pub mod Steps

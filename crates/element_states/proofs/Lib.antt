-- The laws about collected states and open elements.
pub mod States
pub mod Opens
pub mod Calls
pub mod Accepted

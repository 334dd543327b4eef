-- Laws that the proofs of this crate's functions cite.
pub mod Keys
pub mod Log
pub mod Reading
pub mod Scans
pub mod Written
pub mod Refused
pub mod Outcome
pub mod Ending

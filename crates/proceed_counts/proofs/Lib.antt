-- The laws about the table of proceed counts.
pub mod Counts

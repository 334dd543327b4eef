-- The laws about shared sections.
pub mod Shared

-- The laws that the converter rests on.
pub mod Long
pub mod Converted

-- The setting at a place of 01's order, and tables over all places.
pub mod Order
pub mod Doubled

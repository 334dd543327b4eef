-- The laws about the order of settings, the loop that writes one of them, and the loop that doubles a table over all places.
pub mod Order
pub mod Put
pub mod Doubling

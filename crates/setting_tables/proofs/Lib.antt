-- The laws about open moves, the ready-made sets and the masks.
pub mod Opening
pub mod Leaving
pub mod Noting
pub mod Selecting
pub mod Masking
pub mod Apart
pub mod Basing
pub mod Closing
pub mod Exiting
pub mod WaysBack

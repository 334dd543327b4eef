-- The open moves, the ready-made sets and the masks.
pub mod OpenMoves
pub mod Sections
pub mod Trains
pub mod Prepared
pub mod Masks

-- The laws about the definitions of specs/.
pub mod Reached
pub mod Kept
pub mod Grow
pub mod Words
pub mod Start
pub mod Row
pub mod Whole
pub mod Back
pub mod Laws

-- The laws that the functions' proofs cite.
pub mod Places
pub mod Filling
pub mod Following
pub mod Safety
pub mod Lanes
pub mod Gathering
pub mod Meetings
pub mod Planes
pub mod Adding
pub mod Enabled
pub mod Judging
pub mod Readying

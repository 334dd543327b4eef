-- What trains follow, and what joining the ready-made sets gives.
pub mod Followed
pub mod Table

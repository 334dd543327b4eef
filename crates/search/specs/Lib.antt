-- What a search leaves, what its steps do, and what is read from its predecessors.
pub mod Read
pub mod Search
pub mod Steps

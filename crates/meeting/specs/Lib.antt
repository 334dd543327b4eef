-- What the search for a meeting finds.
pub mod Meeting

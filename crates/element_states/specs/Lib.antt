-- What is required of a situation that is judged, and the states of its elements in a list.
pub mod Sound
pub mod Collected

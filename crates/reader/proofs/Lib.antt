-- The steps of the loop, and the loop over a part.
pub mod Steps
pub mod Loop

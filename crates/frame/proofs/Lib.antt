-- The laws that the frame operation rests on.
pub mod Frames

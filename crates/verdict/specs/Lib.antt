-- What the verdict of a situation answers.
pub mod Judged

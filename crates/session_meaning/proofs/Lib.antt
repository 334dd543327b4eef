-- The laws about placements, the desk, the log of answers and the report.
pub mod Period
pub mod FreeSections
pub mod Placement
pub mod Last
pub mod Writes
pub mod Desks
pub mod Standing
pub mod Logs
pub mod AnswerLines
pub mod Marks

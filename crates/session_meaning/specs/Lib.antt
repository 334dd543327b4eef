-- An exam session (02, Items 8, 9, 10 and 14): where its paper puts the trains, the desk, the log of answers, the report.
pub mod Placement
pub mod Desk
pub mod Answers
pub mod Report

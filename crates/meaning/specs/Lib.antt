-- The definitions of documents 01 and 02: what a reader has to believe. The laws about them are in proofs/. docs/DEMANDS.md says how a
-- definition is read.

-- ---- document 01, in the order in which it is read
pub mod Station
pub mod Paths
pub mod Verdict
pub mod Settings
pub mod Columns
pub mod Refusals
pub mod File
pub mod Stopped
pub mod Inside
pub mod Sections
pub mod Accepted
pub mod Operations
pub mod Shorter
pub mod Key
-- ---- document 02: Items 1, 4, 6, 11 and 12. Items 2 and 3 are in Station and File, Item 13 in Columns and Accepted; Item 5 is in crate
-- `file_meaning`, 7 in `route_meaning`, 8 to 10 and 14 in `session_meaning`.
pub mod Drawing
pub mod Digits
pub mod CanBeSafe
pub mod Frames
pub mod Parts

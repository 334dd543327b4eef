-- A station file with the other first letter (02, Item 5), and a part of a question as a file (Item 12).
pub mod PartFile
pub mod Converter

-- Laws of whole files: their text, both round trips, the old form, the other letter, a part of a question.
pub mod Text
pub mod Values
pub mod RoundTrip
pub mod OldForm
pub mod WrittenBytes
pub mod PastCounts
pub mod Letters
pub mod Converter
pub mod UnderLetter
pub mod PartFile

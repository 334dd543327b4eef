-- Route tables (02, Item 7).
pub mod Routes

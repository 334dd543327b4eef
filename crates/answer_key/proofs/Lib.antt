-- The laws behind the key: lines stored one after the other, and which kind of key a file has.
pub mod Rows
pub mod Cases
pub mod Texts
pub mod Keys
pub mod Asked

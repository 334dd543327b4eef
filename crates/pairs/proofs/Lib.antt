-- The laws about the definitions of specs/.
pub mod Laws
pub mod Counts
pub mod Gains

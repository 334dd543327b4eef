-- Where a drawn list leads.
pub mod Walk

-- Which train a conversion to S looks for.
pub mod Long

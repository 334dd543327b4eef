-- The laws about route files and their tables.
pub mod Conflicts
pub mod RouteFile
pub mod Sorts

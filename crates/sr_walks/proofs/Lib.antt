pub mod Walks
pub mod Distances
pub mod Distinct
pub mod Rows

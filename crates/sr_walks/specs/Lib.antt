pub mod Distance
pub mod Sums

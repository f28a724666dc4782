pub mod Named
pub mod Diff
pub mod Matched
pub mod Laws

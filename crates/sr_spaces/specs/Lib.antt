pub mod Sets
pub mod Failure

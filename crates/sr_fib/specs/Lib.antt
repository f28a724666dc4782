pub mod Sorted
pub mod Outs
pub mod Entries
pub mod Tables

pub mod Post
pub mod Marks
pub mod Kept
pub mod Sets
pub mod Bypass

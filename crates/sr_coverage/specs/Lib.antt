pub mod Counting
pub mod Pushed

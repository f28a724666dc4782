pub mod Rounds
pub mod Made
pub mod Starts
pub mod Joins
pub mod Turns

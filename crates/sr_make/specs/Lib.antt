pub mod Draws
pub mod Pairs
pub mod Nodes
pub mod Script
pub mod Making
pub mod Sizes
pub mod Joined

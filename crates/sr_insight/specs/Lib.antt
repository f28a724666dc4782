pub mod Groups
pub mod Stacks

pub mod Ranges
pub mod Rules
pub mod Keys
pub mod Indices
pub mod Adjacencies
pub mod Depth

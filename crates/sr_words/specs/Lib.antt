pub mod Making
pub mod Tasks
pub mod Laws

pub mod Eligible
pub mod Protected
pub mod Active
pub mod Delivery
pub mod Backup
pub mod Laws

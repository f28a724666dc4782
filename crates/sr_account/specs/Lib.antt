pub mod Items
pub mod Reasons
pub mod Used
pub mod Asides
pub mod Sources
pub mod Laws
pub mod Filling
pub mod Steps

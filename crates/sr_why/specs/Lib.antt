pub mod Labelled
pub mod Reasons
pub mod Laws
pub mod Whole
pub mod Listed

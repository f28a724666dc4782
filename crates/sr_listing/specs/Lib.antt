pub mod Listed
pub mod Wanted

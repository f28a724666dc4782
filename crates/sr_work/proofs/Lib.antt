pub mod Numbers
pub mod Lists
pub mod Refused
pub mod Rows
pub mod Made
pub mod Turns
pub mod Held
pub mod Publishing

pub mod Lines
pub mod Replies
pub mod Written
pub mod Reading
pub mod Going
pub mod Endings
pub mod Output

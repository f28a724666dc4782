pub mod Words
pub mod Number
pub mod Says
pub mod FirstWords
pub mod LineSays
pub mod Answers
pub mod Digits

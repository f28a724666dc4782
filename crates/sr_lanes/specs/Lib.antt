pub mod Bits
pub mod Marks
pub mod Passes
pub mod Tests
pub mod Words

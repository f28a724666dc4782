pub mod Answering
pub mod Determined
pub mod Ending
pub mod Going
pub mod Heads
pub mod Last
pub mod Piece
pub mod Steps

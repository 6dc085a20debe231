pub mod Answer
pub mod Moves
pub mod Walks

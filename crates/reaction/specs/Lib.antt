pub mod Answer
pub mod Reaction
pub mod Meaning
pub mod Walks

pub mod Answer
pub mod Restate
pub mod Short

pub mod Answer
pub mod Run
pub mod Filling

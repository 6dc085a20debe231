pub mod Memory
pub mod Live
pub mod Answer
pub mod Given
pub mod Whole
pub mod Agreeing

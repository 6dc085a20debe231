pub mod Answer
pub mod Check
pub mod Finished
pub mod Progress
pub mod Accepted

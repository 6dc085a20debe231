pub mod Answer
pub mod Tight
pub mod Below
pub mod Several
pub mod Walks

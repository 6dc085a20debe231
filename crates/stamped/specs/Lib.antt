pub mod Room
pub mod Stamped

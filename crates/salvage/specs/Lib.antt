pub mod Answer
pub mod Salvage
pub mod Backwards

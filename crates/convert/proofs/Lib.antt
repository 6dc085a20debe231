pub mod Writing
pub mod Converting

pub mod Answer
pub mod Convert

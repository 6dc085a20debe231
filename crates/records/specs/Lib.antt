pub mod Record
pub mod Refusal
pub mod Form
pub mod Reading
pub mod Encode

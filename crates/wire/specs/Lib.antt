pub mod Choice
pub mod Reply
pub mod Field
pub mod Encode
pub mod Standing
pub mod Turned
pub mod Made

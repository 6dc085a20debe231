pub mod Answer
pub mod Entries
pub mod Table
pub mod Check
pub mod Inner
pub mod Under
pub mod Encode

pub mod Adding
pub mod Accepting
pub mod TableLong
pub mod Row

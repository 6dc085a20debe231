pub mod Sizes
pub mod Puts
pub mod Restating
pub mod Entries

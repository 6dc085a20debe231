pub mod Rows
pub mod Joining
pub mod Quoting
pub mod Whole
pub mod Classroom

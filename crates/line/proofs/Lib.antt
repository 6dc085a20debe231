pub mod Puts
pub mod Decimal
pub mod Answers
pub mod Classroom

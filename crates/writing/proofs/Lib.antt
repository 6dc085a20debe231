pub mod Fields
pub mod Delivering
pub mod Growing

pub mod Counted
pub mod InTable
pub mod Completing
pub mod Turning

pub mod Reaching
pub mod Checking
pub mod Looking
pub mod Closing

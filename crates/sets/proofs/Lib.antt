pub mod Bits
pub mod Smallest
pub mod Members
pub mod Turned
pub mod Walk

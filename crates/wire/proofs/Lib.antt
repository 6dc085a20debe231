pub mod Apart
pub mod Choice
pub mod Laws
pub mod Bytes
pub mod Placed
pub mod Standing
pub mod Turned
pub mod Made

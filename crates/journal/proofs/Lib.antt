pub mod Running
pub mod Entry
pub mod OneMore
pub mod Accepted
pub mod Ahead

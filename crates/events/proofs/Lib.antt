pub mod OneMore
pub mod FromRows

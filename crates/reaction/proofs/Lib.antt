pub mod NextStates
pub mod Weights
pub mod First
pub mod Meaning
pub mod Findings
pub mod Entry
pub mod Asking

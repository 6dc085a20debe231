pub mod InPlace
pub mod NoTimer

pub mod Tally
pub mod Sums
pub mod Totals
pub mod Counting

pub mod Swings
pub mod Months

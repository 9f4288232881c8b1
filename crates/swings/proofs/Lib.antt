pub mod Swings
pub mod Extremes

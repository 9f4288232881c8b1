pub mod Walk
pub mod Openings

pub mod Followed
pub mod Parts
pub mod Ranges

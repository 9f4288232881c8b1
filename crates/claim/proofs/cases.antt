pub mod Advance
pub mod Level
pub mod Starred

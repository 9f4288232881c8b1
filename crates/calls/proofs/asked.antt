pub mod States
pub mod Passed

pub mod Cards
pub mod Counts
pub mod inner

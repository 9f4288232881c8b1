pub mod Formats
pub mod Cards
pub mod Station
pub mod Faults
pub mod inner

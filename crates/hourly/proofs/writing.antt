pub mod Stores
pub mod Fields
pub mod Cards

pub mod Examples
pub mod Ranges
pub mod Linked

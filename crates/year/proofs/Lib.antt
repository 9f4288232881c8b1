pub mod Minutes
pub mod Put
pub mod Recorded
pub mod Twelve
pub mod Prepared
pub mod Linked

pub mod Put
pub mod Records
pub mod Structs
pub mod Whole
pub mod Ranges
pub mod Linked

pub mod Strides
pub mod Onward
pub mod Stored
pub mod Kept
pub mod Examples
pub mod One

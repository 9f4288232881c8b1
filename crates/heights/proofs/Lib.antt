pub mod Sums
pub mod Terms
pub mod Linked

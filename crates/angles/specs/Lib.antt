pub mod Ticks
pub mod Floor
pub mod Sums

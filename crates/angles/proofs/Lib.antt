pub mod Ints
pub mod Floors
pub mod Angles
pub mod Machine
pub mod Known
pub mod Sums
pub mod Linked

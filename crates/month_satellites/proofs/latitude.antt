pub mod Sizes
pub mod Sine
pub mod Examples

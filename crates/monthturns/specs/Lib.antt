pub mod Month
pub mod Widths
pub mod Year
pub mod inner

pub mod Coefficients
pub mod Parts
pub mod Shallow
pub mod Shallows
pub mod inner

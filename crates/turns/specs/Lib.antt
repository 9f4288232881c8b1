pub mod Written
pub mod Slope
pub mod Sense
pub mod Cuts
pub mod Search
pub mod Stride
pub mod Strides
pub mod inner

pub mod Height
pub mod Angle
pub mod Share
pub mod Series
pub mod Exact
pub mod inner

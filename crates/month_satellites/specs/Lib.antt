pub mod Latitude
pub mod Satellites
pub mod inner

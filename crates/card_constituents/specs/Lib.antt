pub mod Constituents
pub mod Satellites
pub mod inner

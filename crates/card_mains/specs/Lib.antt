pub mod Mains
pub mod Satellite
pub mod Satellites
pub mod inner

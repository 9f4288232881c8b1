pub mod Frequencies
pub mod Longitudes
pub mod inner

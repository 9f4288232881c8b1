pub mod Longitudes
pub mod Arguments
pub mod inner

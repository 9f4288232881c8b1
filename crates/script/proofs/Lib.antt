pub mod Same
pub mod Latitudes
pub mod Numbers

pub mod Heights
pub mod Lines
pub mod Places
pub mod Lanes
pub mod Sizes
pub mod Spots
pub mod Plots
pub mod Bands

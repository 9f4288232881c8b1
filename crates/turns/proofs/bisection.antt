pub mod Cuts
pub mod Halves

pub mod Nearest
pub mod Asked

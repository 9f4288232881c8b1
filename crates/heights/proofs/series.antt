pub mod Filling
pub mod Advancing
pub mod Written

pub mod Fraction
pub mod Fixed

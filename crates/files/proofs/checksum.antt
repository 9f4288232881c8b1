pub mod Division
pub mod Check

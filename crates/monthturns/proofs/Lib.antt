pub mod Kept
pub mod Month
pub mod Year
pub mod UsualWidths

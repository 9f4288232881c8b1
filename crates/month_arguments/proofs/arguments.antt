pub mod Reduced
pub mod Chain
pub mod Views

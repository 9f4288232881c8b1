pub mod Apart
pub mod Distance

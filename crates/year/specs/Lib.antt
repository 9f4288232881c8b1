pub mod Year
pub mod inner

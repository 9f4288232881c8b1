pub mod Worked
pub mod inner

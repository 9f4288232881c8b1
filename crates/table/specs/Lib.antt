pub mod Table
pub mod Definitions
pub mod inner

pub mod Script
pub mod Words
pub mod inner

pub mod Number
pub mod Numerals
pub mod inner

pub mod Pairs
pub mod Shallow
pub mod inner

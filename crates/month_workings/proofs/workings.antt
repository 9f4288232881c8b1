pub mod Storing
pub mod Agree
pub mod None

pub mod Faults
pub mod Formats
pub mod Card
pub mod Places
pub mod inner

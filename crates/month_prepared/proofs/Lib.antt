pub mod Places
pub mod Owners
pub mod OneMonth
pub mod Linked

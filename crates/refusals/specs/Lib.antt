pub mod Outcome
pub mod Checked
pub mod Places

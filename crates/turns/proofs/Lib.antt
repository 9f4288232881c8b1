pub mod Front
pub mod Linked

-- What other crates cite.
pub mod Linked

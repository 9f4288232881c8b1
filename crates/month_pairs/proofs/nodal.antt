pub mod Multiplying
pub mod OfTable

pub mod Search
pub mod OfRows
pub mod FirstRows

pub mod Prepared
pub mod Months
pub mod inner

pub mod Months
pub mod Differences
pub mod Days
pub mod Examples
pub mod Linked

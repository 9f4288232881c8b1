pub mod Returned
pub mod View
pub mod Posts
pub mod inner

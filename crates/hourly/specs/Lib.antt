pub mod Card
pub mod Format
pub mod Writing
pub mod Reading
pub mod Month
pub mod Answers
pub mod inner

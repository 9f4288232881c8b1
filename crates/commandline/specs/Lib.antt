pub mod Words
pub mod Numbers
pub mod Times
pub mod Lengths
pub mod Days

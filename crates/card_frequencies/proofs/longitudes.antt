pub mod Fives

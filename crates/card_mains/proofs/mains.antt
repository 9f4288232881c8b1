pub mod Room

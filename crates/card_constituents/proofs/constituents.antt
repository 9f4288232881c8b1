pub mod OfMains

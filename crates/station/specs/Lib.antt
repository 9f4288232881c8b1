pub mod Strides
pub mod Station
pub mod Records
pub mod inner

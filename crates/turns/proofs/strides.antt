pub mod Names
pub mod Amplitudes
pub mod Usual

pub mod Handed
pub mod Values
pub mod Runs
pub mod OnMachine
pub mod Accepted

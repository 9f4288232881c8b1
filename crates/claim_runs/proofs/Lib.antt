mod Lending
mod Ran
mod Handing
mod Parameters
mod Values
mod Loads
mod Laid
mod EachKind
mod Program
pub mod OnMachine
pub mod Accepted

-- What ties the code to the definitions beside this folder. Only inner contracts cite it.
pub mod Fields
pub mod Answers
pub mod Lines
pub mod Places

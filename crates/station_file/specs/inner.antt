-- What ties the code to the definitions beside this folder. Only inner contracts cite it.
pub mod File

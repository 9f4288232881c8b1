pub mod Forms
pub mod Utf8
pub mod Escapes

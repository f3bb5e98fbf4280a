pub mod Narrow
pub mod Utf8
pub mod Char
pub mod Text
pub mod Cases

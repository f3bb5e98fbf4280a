pub mod Pairs
pub mod Text

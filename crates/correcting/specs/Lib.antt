pub mod Correct
pub mod Find
pub mod Cases

pub mod Tied
pub mod Cases
pub mod Told

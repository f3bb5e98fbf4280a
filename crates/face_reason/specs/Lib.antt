pub mod Reasons
pub mod Cases
pub mod Refused

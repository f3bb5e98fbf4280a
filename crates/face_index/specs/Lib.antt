pub mod Placing
pub mod Cases
pub mod Refused

pub mod Lent
pub mod Version
pub mod Judging
pub mod Looking
pub mod Cases
pub mod Refused

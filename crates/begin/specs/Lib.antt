pub mod Begin
pub mod Cases
pub mod Taken

pub mod Fresh
pub mod Cases

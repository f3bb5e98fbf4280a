pub mod Give
pub mod Size
pub mod Cases

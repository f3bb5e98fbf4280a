pub mod Passed
pub mod Edges
pub mod Cases

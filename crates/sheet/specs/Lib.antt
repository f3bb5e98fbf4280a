pub mod Digits
pub mod Field
pub mod Marks
pub mod Reading
pub mod Back
pub mod Values
pub mod One
pub mod Cases

pub mod Found
pub mod First
pub mod Repeat
pub mod Table
pub mod Columns
pub mod Seen
pub mod Cases

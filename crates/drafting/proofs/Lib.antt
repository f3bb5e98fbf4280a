pub mod Anew
pub mod Kept
pub mod Adds
pub mod WrittenAgain

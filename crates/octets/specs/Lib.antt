pub mod Cases
pub mod Octets
pub mod Splice
pub mod Stores
pub mod Word

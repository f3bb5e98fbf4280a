pub mod Reply
pub mod Why
pub mod Halves
pub mod Numbers
pub mod Cause
pub mod Shown
pub mod Beside
pub mod Cases

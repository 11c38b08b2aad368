pub mod Size
pub mod Places
pub mod Ends

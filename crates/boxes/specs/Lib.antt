pub mod Box
pub mod Holds
pub mod Bytes

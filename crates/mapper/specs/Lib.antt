pub mod Map
pub mod Bands

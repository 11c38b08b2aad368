pub mod Laws
pub mod Bands
pub mod Worked

pub mod Packing
pub mod Runs
pub mod Bytes
pub mod Laws
pub mod Worked

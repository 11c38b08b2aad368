pub mod Boxes
pub mod Calls

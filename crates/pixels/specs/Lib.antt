pub mod Colour
pub mod Equal

pub mod Within
pub mod Whole
pub mod Packing
pub mod Held

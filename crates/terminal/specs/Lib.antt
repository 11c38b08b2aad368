pub mod Colours
pub mod Nearest
pub mod Inner

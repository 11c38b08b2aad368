pub mod Swatches
pub mod Inner

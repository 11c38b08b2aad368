pub mod Sizes
pub mod Cut
pub mod Inner
pub mod Files
pub mod Version

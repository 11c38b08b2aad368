pub mod Spread
pub mod Cut
pub mod Best
pub mod Inner

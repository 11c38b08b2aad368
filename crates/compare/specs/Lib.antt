pub mod Compare
pub mod Inner

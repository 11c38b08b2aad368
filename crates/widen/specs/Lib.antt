pub mod Widen
pub mod Inner

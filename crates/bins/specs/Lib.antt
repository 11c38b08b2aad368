pub mod Sum
pub mod Inner

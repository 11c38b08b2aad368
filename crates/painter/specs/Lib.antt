pub mod Paint
pub mod Inner

pub mod Header
pub mod Load
pub mod Inner

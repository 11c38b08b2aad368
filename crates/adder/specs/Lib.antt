pub mod Batch
pub mod Add
pub mod Inner

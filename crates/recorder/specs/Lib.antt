pub mod Session
pub mod Batch
pub mod Replay
pub mod Inner

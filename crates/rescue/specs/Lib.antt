pub mod Rescue
pub mod Inner

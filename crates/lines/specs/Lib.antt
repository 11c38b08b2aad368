pub mod Text
pub mod Writing
pub mod Inner
pub mod Listing
pub mod Reading

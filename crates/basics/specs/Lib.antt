pub mod Range
pub mod Dimension
pub mod Answer
pub mod Determines
pub mod Refusal

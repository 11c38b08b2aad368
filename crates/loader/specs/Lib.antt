pub mod Load
pub mod Merge
pub mod Plan
pub mod Tree
pub mod Doubled
pub mod Inner

pub mod Decimal
pub mod Putting
pub mod Writing
pub mod Texts
pub mod Reading

pub mod Boxes
pub mod Points
pub mod Spreads

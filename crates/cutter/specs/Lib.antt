pub mod Record
pub mod Fronts
pub mod Palette
pub mod Map
pub mod Cut
pub mod Inner

pub mod Below
pub mod Steps
pub mod Corners
pub mod Same

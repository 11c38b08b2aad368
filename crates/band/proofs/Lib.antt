pub mod Below
pub mod Band
pub mod Pixels
pub mod Numbers

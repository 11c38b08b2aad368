pub mod Band
pub mod LookUp

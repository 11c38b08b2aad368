pub mod Size
pub mod Grid

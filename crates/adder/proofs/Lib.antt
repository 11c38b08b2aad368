pub mod Loading
pub mod Totals
pub mod Parts
pub mod Scaled
pub mod StepTable
pub mod Adding

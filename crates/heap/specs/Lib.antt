pub mod Heap
pub mod Boxes

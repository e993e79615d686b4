pub mod Cells
pub mod Carrying
pub mod Parts

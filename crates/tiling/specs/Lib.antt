pub mod Cells
pub mod Positions
pub mod Theorems

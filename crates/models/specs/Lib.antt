pub mod Corners
pub mod Square
pub mod Triangle
pub mod Moving
pub mod Weaving
pub mod Product
pub mod Figures

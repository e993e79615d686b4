pub mod Side
pub mod Place

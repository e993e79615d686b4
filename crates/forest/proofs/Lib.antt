pub mod Overlaid
pub mod EvenlyPlanted
pub mod OnePlanting

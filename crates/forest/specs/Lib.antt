pub mod Faults
pub mod Signs
pub mod Cuts
pub mod Planting

pub mod Faults
pub mod Joints
pub mod Checking
pub mod Crossing
pub mod Samples

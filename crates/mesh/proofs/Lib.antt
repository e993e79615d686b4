pub mod Edges
pub mod Verdicts
pub mod Acceptance
pub mod Leading
pub mod Sampling

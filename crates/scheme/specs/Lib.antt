pub mod Scheme
pub mod Plan
pub mod Limiting
pub mod Limited
pub mod Alike
pub mod LimitedPlan

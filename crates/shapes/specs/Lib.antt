pub mod Segment
pub mod LineLaws
pub mod LineOnPlan
pub mod OnPlan

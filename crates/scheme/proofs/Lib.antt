pub mod Answered
pub mod Powers

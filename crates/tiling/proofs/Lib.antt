pub mod Numbers
pub mod Holding
pub mod Chains
pub mod Filling

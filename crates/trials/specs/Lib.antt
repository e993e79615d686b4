pub mod Relabelling
pub mod RelabellingLemmas

pub mod Told
pub mod Text
pub mod Wanting
pub mod Answering

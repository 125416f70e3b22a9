pub mod Acts
pub mod Memory
pub mod Images
pub mod Keeping

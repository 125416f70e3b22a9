pub mod Sent
pub mod Takes
pub mod Values

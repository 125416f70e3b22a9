pub mod Addresses
pub mod Calls
pub mod Logs
pub mod Passes
pub mod Seals
pub mod Taken
pub mod Loads
pub mod States

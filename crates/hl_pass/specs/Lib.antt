pub mod Calls
pub mod Laws
pub mod Passes
pub mod Stamps
pub mod Views
pub mod Stores

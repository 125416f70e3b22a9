pub mod Firings
pub mod Jobs
pub mod Shelves

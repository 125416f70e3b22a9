pub mod Actions
pub mod Lists
pub mod Rows
pub mod Taken

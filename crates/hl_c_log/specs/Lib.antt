pub mod Holders
pub mod Logs
pub mod Pages
pub mod Passes
pub mod Rows
pub mod Seals
pub mod Words

pub mod Counted
pub mod Failures
pub mod Image
pub mod Lines
pub mod Pages
pub mod Places
pub mod Rows

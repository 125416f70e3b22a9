pub mod Bytes
pub mod Rows
pub mod Walks
pub mod Files

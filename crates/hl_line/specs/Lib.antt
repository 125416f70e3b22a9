pub mod Lines
pub mod Reading
pub mod Replies
pub mod Streams
pub mod Usual

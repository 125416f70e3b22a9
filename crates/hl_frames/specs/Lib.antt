pub mod Pages
pub mod Answers
pub mod IsFrames
pub mod Counted
pub mod Row
pub mod Kept

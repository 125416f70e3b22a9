pub mod Tallies
pub mod Counted
pub mod Kept

pub mod Bounds
pub mod Histories
pub mod Kept
pub mod Presents
pub mod Shown
pub mod States
pub mod Works

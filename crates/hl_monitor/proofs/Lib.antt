pub mod Labels
pub mod OnLiterals
pub mod Padding

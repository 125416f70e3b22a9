pub mod ListLaws
pub mod Masks
pub mod Placed
pub mod Remainders
pub mod SearchLaws

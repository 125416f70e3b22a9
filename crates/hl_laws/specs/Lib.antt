pub mod BaseLaws
pub mod BaseRows
pub mod Follows
pub mod Laws
pub mod Worked
pub mod WorkedBases
pub mod WorkedBorders
pub mod WorkedPages

pub mod Image
pub mod Layout
pub mod Pieces
pub mod Device
pub mod Laws

pub mod Views
pub mod Rule
pub mod Seats
pub mod States
pub mod Laws
pub mod Past
pub mod Rows
pub mod Cells

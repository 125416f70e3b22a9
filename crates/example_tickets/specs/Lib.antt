pub mod Tickets
pub mod InTurn

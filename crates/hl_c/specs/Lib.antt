pub mod Doors
pub mod Slots

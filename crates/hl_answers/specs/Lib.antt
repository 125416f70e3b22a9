pub mod Lags
pub mod Outcomes
pub mod Slots

pub mod Traces
pub mod OneTrace
pub mod Counters
pub mod Records
pub mod Tails

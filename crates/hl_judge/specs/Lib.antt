pub mod Traces
pub mod Judging

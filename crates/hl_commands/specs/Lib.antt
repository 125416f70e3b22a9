pub mod Reported
pub mod Judged
pub mod Commands
pub mod Jobs

pub mod EngineLaws
pub mod FlushLaws
pub mod UnflushedLaws

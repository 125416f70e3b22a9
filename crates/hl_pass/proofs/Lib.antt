pub mod KnownLaws
pub mod LookLaws
pub mod StoreLaws

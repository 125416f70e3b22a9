pub mod PageLaws
pub mod MarkLaws
pub mod KeptLaws
pub mod CountLaws
pub mod StateCounts
pub mod CounterLaws

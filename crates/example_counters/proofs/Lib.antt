pub mod AddLaws
pub mod CountedLaws

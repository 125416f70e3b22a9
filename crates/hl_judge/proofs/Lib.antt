pub mod AgreeLaws
pub mod PartLaws
pub mod ReadLaws
pub mod TraceLaws
pub mod SpellingLaws

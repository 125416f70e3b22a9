pub mod DomainLaws
pub mod ToldLaws

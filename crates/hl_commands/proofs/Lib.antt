pub mod ImageLaws
pub mod ReportLaws
pub mod JobLaws
pub mod StatusLaws

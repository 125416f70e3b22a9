pub mod TellLaws
pub mod KeptLaws
pub mod ScanLaws

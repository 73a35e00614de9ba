pub mod Unviewed
pub mod Reported
pub mod ReportLaws
pub mod Marked

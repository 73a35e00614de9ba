pub mod Joined
pub mod WaitingParts
pub mod TableParts
pub mod ReportsParts
pub mod KnownParts

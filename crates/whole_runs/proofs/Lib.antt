mod Redoing
pub mod Going
pub mod Never
pub mod RestParts
pub mod ReportParts
pub mod InstallParts
pub mod ActParts
pub mod HaltParts

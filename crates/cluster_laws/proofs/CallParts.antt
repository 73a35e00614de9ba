pub mod Written
pub mod Owned
pub mod Events
pub mod Disks
pub mod OwnLogs
pub mod WholeLogs

pub mod Disk
pub mod Causes
pub mod Stops
pub mod Memory

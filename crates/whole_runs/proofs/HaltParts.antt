pub mod Walked
pub mod Resting
pub mod Completed
pub mod Serving
pub mod Waiting
pub mod Reported
pub mod Installed
pub mod Stopping

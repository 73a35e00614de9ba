pub mod Burying
pub mod Running
pub mod Past
pub mod Whole
pub mod Kept
pub mod Gathered
pub mod Installed
pub mod Joining

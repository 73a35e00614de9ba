pub mod Between
pub mod Whole
pub mod Events

pub mod Altered
pub mod Steps
pub mod Midway
pub mod Events

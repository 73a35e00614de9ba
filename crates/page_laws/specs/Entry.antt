pub mod Decisions
pub mod Looks
pub mod Rows
pub mod Steps
pub mod Tables

pub mod Lists
pub mod Turns
pub mod Successors
pub mod OneWriter
pub mod Lines
pub mod Records

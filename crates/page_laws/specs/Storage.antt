pub mod Looks
pub mod Stored
pub mod Redone
pub mod Machine
pub mod Rows

pub mod Looks
pub mod Adds
pub mod Tells
pub mod Commit
pub mod Machine

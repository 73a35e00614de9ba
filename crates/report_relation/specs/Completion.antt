pub mod Completed
pub mod Reported
pub mod Agreeing
pub mod Looks

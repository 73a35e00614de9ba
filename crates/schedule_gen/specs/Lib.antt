pub mod Limits
pub mod Links
pub mod Owners
pub mod Rest
pub mod Machines

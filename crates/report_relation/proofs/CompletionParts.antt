pub mod Beside
pub mod Looks
pub mod Own
pub mod Completed
pub mod Reported
pub mod Agreed
pub mod Gathering
pub mod Differing

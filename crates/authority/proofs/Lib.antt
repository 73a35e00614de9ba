pub mod Entering
pub mod Planned

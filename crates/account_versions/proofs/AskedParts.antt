pub mod Homes
pub mod Owned
pub mod Events
pub mod Starting
pub mod Stepping

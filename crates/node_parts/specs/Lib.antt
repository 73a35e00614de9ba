pub mod Comes
pub mod Counts
pub mod Events
pub mod Outputs
pub mod State
pub mod Stock
pub mod Tables

pub mod Entries
pub mod Calls
pub mod Stops
pub mod ReadPages
pub mod Redos
pub mod Durables
pub mod AsSteps

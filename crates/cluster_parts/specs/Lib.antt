pub mod State
pub mod Ends
pub mod Events
pub mod Steps
pub mod Laws

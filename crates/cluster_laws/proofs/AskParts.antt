pub mod Waiting
pub mod Owned
pub mod Events
pub mod Lists
pub mod Traces
pub mod Acting
pub mod Kept

pub mod Cores
pub mod Sends
pub mod Counting
pub mod Scripts
pub mod Stories
pub mod Closing

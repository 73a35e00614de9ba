pub mod Used
pub mod Holders
pub mod Seen

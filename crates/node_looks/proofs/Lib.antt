pub mod Counted
pub mod Listed
pub mod Seen
pub mod Sums

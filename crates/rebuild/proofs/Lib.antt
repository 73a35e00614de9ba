pub mod Entries
pub mod Gathered
pub mod Purged
pub mod Listed
pub mod Made
pub mod Counted
pub mod TakenOver

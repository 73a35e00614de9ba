pub mod Begun
pub mod Counts
pub mod Kept
pub mod Places

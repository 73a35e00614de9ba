pub mod Points
pub mod Writing
pub mod Versions

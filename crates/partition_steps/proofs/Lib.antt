pub mod Cleaning
pub mod Finishing
pub mod Rising
pub mod Staying
pub mod Writing

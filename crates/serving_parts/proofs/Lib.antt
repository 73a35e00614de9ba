pub mod Alikes
pub mod Serves
pub mod Moving
pub mod Ending
pub mod Giving
pub mod Turning
pub mod Writing

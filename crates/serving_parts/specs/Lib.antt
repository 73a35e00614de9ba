pub mod Sides
pub mod Outcome
pub mod Turns
pub mod Frames
pub mod Written
pub mod Works
pub mod Worked

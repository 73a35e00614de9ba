pub mod Sound
pub mod Faults

pub mod OwnersText
pub mod Faults

pub mod Counts
pub mod Lending
pub mod Links
pub mod Room
pub mod Slots

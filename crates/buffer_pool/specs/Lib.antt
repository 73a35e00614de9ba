pub mod Buffer
pub mod Entries
pub mod Images
pub mod Kept
pub mod Seen
pub mod Uses

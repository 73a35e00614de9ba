pub mod Notes
pub mod Blanks
pub mod Copies
